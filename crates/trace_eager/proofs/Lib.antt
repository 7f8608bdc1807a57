mod AnswersLemmas
pub mod RenamedLemmas
