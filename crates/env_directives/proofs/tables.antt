-- The order of directives, and their tables.
pub mod TiesLemmas
pub mod AddsLemmas
pub mod PlacesLemmas
pub mod TablesLemmas
pub mod PrefixesLemmas
pub mod FindLemmas
