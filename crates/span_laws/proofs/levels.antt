-- What filters and layers hear of spans.
pub mod HooksLemmas
pub mod LevelsLemmas
pub mod LiveSpansLemmas
pub mod TextsLemmas
