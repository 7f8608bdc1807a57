mod Common
mod NamedHandlesLemmas
mod NamedSitesLemmas
mod SpendingLemmas
