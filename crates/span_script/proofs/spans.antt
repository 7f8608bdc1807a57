-- Spans and their handles.
pub mod MakingsLemmas
pub mod MadeSpansLemmas
pub mod ScopesLemmas
pub mod SitesLemmas
pub mod MoreHandlesLemmas
pub mod ClonesLemmas
pub mod CurrentsLemmas
pub mod ChainsLemmas
pub mod DropsLemmas
pub mod OpenSpansLemmas
pub mod ClosingOrderLemmas
pub mod OpenCountLemmas
