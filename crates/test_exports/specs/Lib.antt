pub mod Pulses
pub mod Replies
pub mod Samples
pub mod Shape
pub mod Drawn
pub mod Messages
