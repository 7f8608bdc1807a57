pub mod Order
pub mod Knowing
