-- What tasks spell on a tape.
pub mod HandedOnRunLemmas
pub mod HandingOnLemmas
pub mod NewTapeLemmas
pub mod PollsLemmas
pub mod RoundsLemmas
pub mod RunsLemmas
pub mod SpelledLemmas
pub mod SpelledRunLemmas
pub mod PollLemmas
