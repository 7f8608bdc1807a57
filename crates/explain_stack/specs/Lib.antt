pub mod Counting
pub mod Looking
pub mod Order
pub mod Places
pub mod Puts
pub mod Tallies
pub mod Telling
