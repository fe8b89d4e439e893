pub mod Flat
pub mod StoredInC
