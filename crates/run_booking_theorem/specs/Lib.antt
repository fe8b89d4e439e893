pub mod PlainWalk
pub mod FinishedRuns
pub mod Parts
