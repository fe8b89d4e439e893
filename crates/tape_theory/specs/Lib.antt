pub mod Fed
pub mod PlainTape
pub mod TapeText
pub mod Reported
