pub mod Holds
pub mod Computed
