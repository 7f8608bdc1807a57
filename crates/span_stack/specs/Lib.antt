pub mod Counting
pub mod FilterInPlace
pub mod Measured
pub mod Over
pub mod Reading
pub mod Through
