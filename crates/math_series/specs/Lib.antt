pub mod Fraction
pub mod Series
pub mod CarrierTruth
