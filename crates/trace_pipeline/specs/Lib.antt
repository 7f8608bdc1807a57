pub mod Contexts
pub mod Guards
pub mod Parts
pub mod Spending
