pub mod Common
pub mod steps
pub mod spans
pub mod records
mod levels
