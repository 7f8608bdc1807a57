pub mod Lists
pub mod Steps
pub mod Firsts
pub mod Puts
pub mod Crossing
