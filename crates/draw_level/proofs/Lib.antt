mod Table
pub mod Rule
pub mod Powers
mod Rounded
mod Significand
