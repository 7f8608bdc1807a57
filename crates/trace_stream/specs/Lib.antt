pub mod Streams
pub mod Statuses
pub mod Progress
pub mod Meaning
pub mod Carries
pub mod Runs
pub mod reading
