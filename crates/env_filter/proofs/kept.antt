-- What a filter keeps of spans.
pub mod FieldsLemmas
pub mod LevelsLemmas
pub mod RisingLevelsLemmas
pub mod ToldLevelsLemmas
pub mod WatchesLemmas
pub mod StackedLemmas
