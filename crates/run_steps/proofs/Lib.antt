pub mod Tests
mod Joined
