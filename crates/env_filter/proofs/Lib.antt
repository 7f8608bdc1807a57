pub mod Common
pub mod Wholes
pub mod Worlds
pub mod printed
pub mod kept
