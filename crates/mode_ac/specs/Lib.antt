pub mod Data
pub mod Positions
pub mod BasePlaces
pub mod Building
