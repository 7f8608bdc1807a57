pub mod ContextLeftLemmas
pub mod Numbered
