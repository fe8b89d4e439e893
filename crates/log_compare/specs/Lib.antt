pub mod Capped
pub mod Entries
pub mod Held
pub mod LogChecks
pub mod Paired
pub mod WindowModel
pub mod Comparison
pub mod CompareLaws
