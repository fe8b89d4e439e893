pub mod StateBack
pub mod Demand3
pub mod Refused
