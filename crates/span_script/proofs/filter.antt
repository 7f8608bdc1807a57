-- The filter in force, and the one that counts.
pub mod FilterLemmas
pub mod GateLemmas
pub mod ReloadsLemmas
pub mod CounterLemmas
pub mod TextsLemmas
