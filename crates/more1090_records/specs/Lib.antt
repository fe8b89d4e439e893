pub mod Flat
pub mod LogInC
