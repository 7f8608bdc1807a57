-- Fields of spans.
pub mod FieldsLemmas
