pub mod Ticks
pub mod TicksModel
pub mod BlockValues
pub mod BlockValuesModel
