pub mod Families
pub mod Measures
pub mod Instruments
pub mod Waiting
