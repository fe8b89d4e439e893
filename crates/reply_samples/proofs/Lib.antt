pub mod AtSlot
pub mod Counts
pub mod Ring
