pub mod Stretch
pub mod StretchModel
