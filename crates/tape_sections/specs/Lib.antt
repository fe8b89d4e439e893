pub mod Floats
pub mod Sections
