pub mod Carrying
pub mod Ready
