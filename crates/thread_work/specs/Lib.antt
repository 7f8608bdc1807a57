pub mod Jobs
pub mod Spans
pub mod Preparing
