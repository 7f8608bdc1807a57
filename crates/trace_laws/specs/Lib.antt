pub mod Written
pub mod Headline
pub mod Sums
