pub mod Lists
pub mod Rows
pub mod Checks
pub mod ThreeParts
pub mod Products
pub mod Held
pub mod Feeds
pub mod Lengths
