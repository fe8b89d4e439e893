pub mod Narrow
pub mod Ceil
pub mod Range
pub mod BlockModel
