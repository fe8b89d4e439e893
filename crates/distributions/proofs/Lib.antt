pub mod Literals
pub mod Refused
