pub mod Lists
pub mod Steps
pub mod Firsts
pub mod Crossing
