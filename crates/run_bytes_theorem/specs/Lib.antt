pub mod Typed
pub mod RoundTrip
pub mod Damage
pub mod StoredRuns
pub mod NoNan
