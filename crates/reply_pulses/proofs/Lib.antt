pub mod Positions
pub mod MadeModeAC
