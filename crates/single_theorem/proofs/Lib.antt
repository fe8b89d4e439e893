pub mod Zeros
pub mod Agreement
