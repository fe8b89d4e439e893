pub mod Verdict
pub mod FeedModel
