pub mod Compact
pub mod Fit
pub mod TaskForm
