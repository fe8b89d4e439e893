pub mod Filled
pub mod Guess
pub mod Lanes
pub mod Written
