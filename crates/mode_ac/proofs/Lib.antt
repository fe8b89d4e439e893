pub mod DataOfDigits
pub mod RisingPositions
pub mod BasePlaces
mod Shifts
