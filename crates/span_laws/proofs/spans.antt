-- How spans are made, started and closed.
pub mod MakingsLemmas
pub mod StartsLemmas
pub mod PlacesLemmas
pub mod IdsLemmas
pub mod OccurrencesLemmas
pub mod ClosesLemmas
pub mod ChainsLemmas
pub mod ChildrenLemmas
pub mod AllSpansLemmas
pub mod RequestedSpansLemmas
pub mod StartOrdersLemmas
pub mod MakingOrderLemmas
