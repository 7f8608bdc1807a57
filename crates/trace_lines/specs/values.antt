-- The values that lines are made of.
pub mod RequestData
pub mod FieldData
pub mod RecordData
pub mod MeasureData
pub mod Building
