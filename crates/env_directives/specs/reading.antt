-- How texts are read.
pub mod Cuts
pub mod Separators
pub mod Reading
pub mod Forms
pub mod Faults
pub mod Values
pub mod StaticText
