pub mod Crossing
pub mod SpansLemmas
pub mod PreparedLemmas
