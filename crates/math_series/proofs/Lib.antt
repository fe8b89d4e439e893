mod Ratio
mod Rounded
mod Nested
mod Signed
mod Alternating
mod Valued
mod Narrowed
mod Examples
pub mod CarrierTruth
