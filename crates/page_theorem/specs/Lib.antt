pub mod RunRecords
