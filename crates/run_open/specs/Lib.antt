pub mod Opening
pub mod FirstCause
pub mod FillModel
