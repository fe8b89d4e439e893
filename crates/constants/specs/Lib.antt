pub mod Rate
pub mod Setting
