-- Levels and texts.
pub mod Level
pub mod LevelWords
pub mod Quote
