pub mod Merges
pub mod Rule
pub mod Sending
pub mod Starting
pub mod Serving
pub mod Cuts
