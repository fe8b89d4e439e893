pub mod Samples
pub mod RingModel
