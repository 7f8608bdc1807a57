-- Pipelines from their beginning to a whole script.
pub mod BeginLemmas
pub mod RefusalsLemmas
pub mod RunLemmas
pub mod TakeLemmas
