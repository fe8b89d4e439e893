pub mod Puts
pub mod Decimal
pub mod Lines
pub mod RecordMessage
