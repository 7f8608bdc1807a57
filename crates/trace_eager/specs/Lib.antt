pub mod Written
pub mod Renamed
