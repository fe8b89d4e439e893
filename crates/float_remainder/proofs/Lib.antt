pub mod Unique
pub mod Steps
pub mod Itself
