-- The history of a span that is shared.
pub mod EntriesLemmas
pub mod HoldersLemmas
pub mod HistoriesLemmas
pub mod OpenEntriesLemmas
pub mod StateLemmas
