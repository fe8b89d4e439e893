pub mod Nan
pub mod Exact
pub mod Narrowing
pub mod NarrowOrder
pub mod CeilAsFloat
pub mod Widening
pub mod Ranges
mod PlainBits
pub mod Written
mod PlainSquare
pub mod Rows
