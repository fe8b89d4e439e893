pub mod PlainRack
pub mod OpenedRacks
