pub mod Taps
pub mod PulseSum
pub mod PaddedPulsesModel
pub mod Clocked
pub mod Apply
