-- What calls change, and what they leave.
pub mod Begins
pub mod Between
pub mod Counts
pub mod Restored
pub mod Steps
