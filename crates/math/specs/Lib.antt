pub mod Phase
pub mod Carrier
