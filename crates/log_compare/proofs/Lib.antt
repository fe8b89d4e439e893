pub mod Tests
pub mod Bytes
pub mod Accepting
pub mod Rising
pub mod Marks
pub mod Decisions
pub mod CompareLaws
