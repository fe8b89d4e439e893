pub mod RecordFields
pub mod RunRecords
