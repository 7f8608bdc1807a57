-- Ids that are told apart.
pub mod DistinctLemmas
pub mod PlacesLemmas
