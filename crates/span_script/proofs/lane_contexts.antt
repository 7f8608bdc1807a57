-- Contexts, and those of lanes.
pub mod ContextsLemmas
pub mod AttachesLemmas
pub mod DetachesLemmas
pub mod OwnersLemmas
pub mod NumbersLemmas
pub mod LaneContextsLemmas
