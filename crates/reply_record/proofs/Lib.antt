pub mod Overwritten
pub mod RecordLength
pub mod Joined
