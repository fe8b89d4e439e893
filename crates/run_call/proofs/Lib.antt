pub mod NoiseInRange
pub mod Lengths
pub mod Draws
mod Rows
pub mod Stretches
pub mod BuffersTest
pub mod AnyDraws
pub mod Joined
pub mod Halves
pub mod Adding
pub mod Writing
pub mod Said
pub mod Going
pub mod Refusing
pub mod RunIsTheModels
pub mod MemoryKept
pub mod RunsAreTheModels
