pub mod ListLemmas
pub mod FilterLemmas
pub mod MakingLemmas
pub mod FitsLemmas
pub mod EntriesLemmas
pub mod InputLemmas
pub mod TextsLemmas
