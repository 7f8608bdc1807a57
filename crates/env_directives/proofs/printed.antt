-- What is printed is read back.
pub mod BeginningsLemmas
pub mod TrimLemmas
pub mod ValuesLemmas
pub mod FieldsLemmas
pub mod DirectivesLemmas
