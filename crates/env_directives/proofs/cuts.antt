-- Where texts are cut.
pub mod CutsLemmas
pub mod SeparatorsLemmas
pub mod PiecesLemmas
pub mod BehindLemmas
pub mod BracketsLemmas
pub mod FieldsLemmas
