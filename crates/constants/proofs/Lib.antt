pub mod Numbers
pub mod Settings
