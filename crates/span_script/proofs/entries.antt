-- Entries and exits.
pub mod EntriesLemmas
pub mod EntriesFitLemmas
pub mod FullLanesLemmas
