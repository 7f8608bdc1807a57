-- What every request keeps, whatever its kind.
pub mod StepLemmas
pub mod ServesLemmas
pub mod CallsLemmas
pub mod RequiresLemmas
pub mod LanesLemmas
pub mod SlotsLemmas
pub mod BalanceLemmas
pub mod RecordingLemmas
pub mod KnownSpansLemmas
