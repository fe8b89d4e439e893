pub mod Seen
pub mod OpenedRuns
pub mod RunRefusals
