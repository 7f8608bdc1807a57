pub mod Scripts
pub mod Lines
pub mod Following
pub mod Inputs
