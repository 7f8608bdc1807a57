pub mod Common
pub mod StreamsLemmas
pub mod LinesLemmas
pub mod ReadingLemmas
pub mod AllLinesLemmas
pub mod AnswersLemmas
pub mod ProgressLemmas
pub mod EndsLemmas
