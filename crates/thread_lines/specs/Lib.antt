pub mod ThreadForm
pub mod Answers
pub mod Steps
pub mod Runnable
