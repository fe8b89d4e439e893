mod Walked
mod BenchCounts
mod OpenedBooking
mod DrawsJoined
pub mod PlainWalk
pub mod FinishedRuns
pub mod Parts
