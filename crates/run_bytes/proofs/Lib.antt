pub mod Written
pub mod Read
pub mod Lengths
pub mod Parts
pub mod Taken
