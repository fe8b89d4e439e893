pub mod Walk
pub mod Answered
pub mod WalkModel
pub mod Booking
pub mod Booked
