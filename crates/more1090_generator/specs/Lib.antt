pub mod States
pub mod Answers
pub mod Seen
pub mod OpenedCalls
