pub mod Marked
pub mod ModeSLoop
pub mod ModeACLoop
pub mod ModeSPositions
pub mod ModeACPositions
pub mod BasePulses
pub mod Required
