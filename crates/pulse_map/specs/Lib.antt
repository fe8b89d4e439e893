pub mod Map
pub mod ModeS
pub mod ModeAC
pub mod BasePulses
pub mod Length
