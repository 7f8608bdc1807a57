-- What the traits of directives ask to be shown.
pub mod DirectiveLemmas
pub mod FieldLemmas
