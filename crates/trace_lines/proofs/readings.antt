-- What lines are read as.
pub mod AttributesLemmas
pub mod FieldsLemmas
pub mod IdsLemmas
pub mod LinesLemmas
pub mod CompactLemmas
pub mod QuickLinesLemmas
pub mod ValuesLemmas
pub mod MembersLemmas
pub mod ObjectsLemmas
pub mod OrderLemmas
pub mod PlacesLemmas
pub mod ItemsLemmas
