pub mod FirstLineLemmas
pub mod BlankLemmas
