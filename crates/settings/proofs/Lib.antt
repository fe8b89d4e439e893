pub mod Inside
pub mod Whole
pub mod Rates
pub mod Decided
pub mod FirstCause
pub mod InRange
pub mod Worked
