pub mod Openings
pub mod Reloads
pub mod Crossing
