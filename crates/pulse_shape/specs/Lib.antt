pub mod Values
pub mod Trapezoid
pub mod Convolve
pub mod Prototype
pub mod Accepted
pub mod GroupDelay
pub mod FirstPair
