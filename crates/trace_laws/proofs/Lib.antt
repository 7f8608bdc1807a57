pub mod Common
mod AnswersLemmas
pub mod OutputLemmas
mod FrontsLemmas
pub mod HeadlineLemmas
mod FeedsLemmas
pub mod SumsLemmas
