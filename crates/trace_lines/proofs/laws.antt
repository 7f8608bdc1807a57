-- What holds of all outputs.
pub mod OutputsLaws
