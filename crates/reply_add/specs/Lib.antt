pub mod Signal
pub mod AddModel
