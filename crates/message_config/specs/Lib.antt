pub mod Timing
pub mod Carrier
pub mod Config
