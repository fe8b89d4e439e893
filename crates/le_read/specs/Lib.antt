pub mod LeBytes
pub mod Reads
pub mod Widths
pub mod FloatReads
