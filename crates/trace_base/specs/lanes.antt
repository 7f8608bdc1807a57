-- Lanes, and what is kept on them.
pub mod Contexts
pub mod Default
