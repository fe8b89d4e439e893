pub mod Flat
pub mod TapeInC
