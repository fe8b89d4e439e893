pub mod Sums
pub mod BeforeZero
pub mod Count
