-- Commands that read lines.
pub mod AllLines
pub mod Answers
pub mod Breaks
pub mod Reading
