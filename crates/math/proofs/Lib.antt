mod Horner
pub mod Literals
pub mod Constants
pub mod Wrapped
pub mod Reduction
pub mod Sums
pub mod Bounded
pub mod InRange
