pub mod BlockSamples
pub mod BlockModel
