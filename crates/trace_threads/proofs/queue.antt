-- Turns of those who share a span.
pub mod TurnLemmas
pub mod FrontsLemmas
pub mod TicketsLemmas
pub mod PassesLemmas
pub mod SeatsLemmas
pub mod ViewsLemmas
