pub mod InterestLemmas
pub mod EntryLemmas
pub mod HoldLemmas
pub mod LevelNumbers
pub mod HoldMoveLemmas
pub mod Quotes
pub mod Sound
pub mod QuotesApartLemmas
