pub mod Filling
pub mod PaddedWave
pub mod Waves
pub mod Adding
