-- What texts are read as.
pub mod GrammarLemmas
pub mod ReadingsLemmas
pub mod FaultsLemmas
pub mod StaticTextsLemmas
pub mod NumbersLemmas
pub mod PatternsLemmas
pub mod KeptPatternsLemmas
