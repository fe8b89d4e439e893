pub mod Loops
pub mod Window
pub mod Joined
