pub mod Draw
pub mod Fault
pub mod Config
pub mod Pending
