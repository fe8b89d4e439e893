pub mod FiniteSamples
pub mod SameNumbers
pub mod CountsAdded
pub mod SameRun
pub mod Demand3
pub mod RunRefusals
