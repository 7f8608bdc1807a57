pub mod Polling
pub mod Programs
