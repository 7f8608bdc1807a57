pub mod Lasting
pub mod Making
pub mod Starting
