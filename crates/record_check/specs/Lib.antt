pub mod Accepted
pub mod FirstFault
pub mod FaultLaws
