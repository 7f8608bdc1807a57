-- Worlds of stacks, and what is read of them.
pub mod ViewsLemmas
pub mod NestsLemmas
pub mod ExchangesLemmas
pub mod FreshInterestsLemmas
pub mod CacheLemmas
pub mod NewStackLemmas
