pub mod Spans
pub mod Gates
pub mod Fits
pub mod Texts
pub mod Inputs
