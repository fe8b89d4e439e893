pub mod Literals
pub mod InRange
pub mod Starts
pub mod HoldBack
pub mod FirstClock
pub mod NeverNan
