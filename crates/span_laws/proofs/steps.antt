-- What each effect does.
pub mod LegalLemmas
pub mod StepsLemmas
pub mod GuardsLemmas
pub mod EntriesLemmas
pub mod PartsLemmas
