pub mod LevelInC
pub mod Places
