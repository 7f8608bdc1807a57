pub mod Entries
pub mod Events
pub mod Handles
pub mod Knowing
pub mod Makers
pub mod Worlds
