pub mod Delayed
pub mod Remembered
pub mod OpenedRacks
