pub mod Accepted
pub mod Drawn
