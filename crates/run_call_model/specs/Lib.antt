pub mod Machine
pub mod Batch
pub mod Progress
pub mod Plan
