pub mod Sections
pub mod Setting
pub mod Within
pub mod Prefix
