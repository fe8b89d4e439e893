pub mod Layout
pub mod Sums
pub mod Reading
