-- What is kept of spans and lanes, and what it says.
pub mod Histories
pub mod Kept
pub mod Keyed
pub mod Levels
pub mod Puts
pub mod Watching
