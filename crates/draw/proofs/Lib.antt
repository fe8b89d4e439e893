pub mod InRange
pub mod NotNegative
pub mod FirstDraw
pub mod Bytes
pub mod Message
pub mod ClockLimit
pub mod TapeOrder
mod Scan
mod Fields
pub mod MessageOfDraw
