-- Layers over a subscriber.
pub mod Hooks
pub mod Unseeing
