mod Feed
pub mod TakenText
pub mod TapeInC
