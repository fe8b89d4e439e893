pub mod Feeds
pub mod Memory
pub mod Opening
pub mod Calls
