pub mod Flat
pub mod FlatIsLeft
