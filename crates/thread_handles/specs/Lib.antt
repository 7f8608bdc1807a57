pub mod Works
pub mod Shares
pub mod Gathers
pub mod Columns
