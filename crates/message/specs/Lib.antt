pub mod Types
pub mod Making
pub mod Classing
pub mod ClassChanges
pub mod Interrogators
pub mod InterrogatorLaws
