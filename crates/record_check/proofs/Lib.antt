pub mod Accepting
pub mod Searched
pub mod FaultLaws
