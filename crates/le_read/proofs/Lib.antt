pub mod Halves
pub mod Decided
pub mod RoundTrip
pub mod Patterns
pub mod FloatBack
