mod Within
mod Nearest
pub mod LevelLaws
