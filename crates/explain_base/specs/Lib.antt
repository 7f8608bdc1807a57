pub mod Directives
pub mod Filters
pub mod Switches
