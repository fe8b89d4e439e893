pub mod Formats
pub mod Parity
pub mod Division
pub mod Change
pub mod ParityLaws
