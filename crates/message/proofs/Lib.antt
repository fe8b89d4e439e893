pub mod Numbers
pub mod InRange
pub mod Bytes
pub mod Replies
pub mod Refused
pub mod Listed
pub mod MadeClassed
pub mod ClassChanges
mod Readings
pub mod InterrogatorLaws
