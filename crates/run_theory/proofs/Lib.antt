pub mod PlainFacts
pub mod StepFacts
pub mod Refusals
pub mod Reached
pub mod Reach
pub mod ListClaim
pub mod EverySample
pub mod Times
