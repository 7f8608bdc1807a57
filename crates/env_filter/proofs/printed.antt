-- What a filter prints, and what is read of it.
pub mod TablesLemmas
pub mod PrintsLemmas
pub mod ReadBackLemmas
pub mod TextPartsLemmas
pub mod PiecesLemmas
pub mod RefusalsLemmas
