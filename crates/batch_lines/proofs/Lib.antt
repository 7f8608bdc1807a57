pub mod ListsLemmas
pub mod LinesLemmas
