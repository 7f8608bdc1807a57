pub mod FitsLemmas
pub mod InputLemmas
pub mod OneLineLemmas
pub mod ReadingLemmas
pub mod WritingLemmas
