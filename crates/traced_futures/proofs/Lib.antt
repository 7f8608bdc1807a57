pub mod Polled
pub mod Programs
pub mod Rules
