pub mod Order
pub mod Gates
