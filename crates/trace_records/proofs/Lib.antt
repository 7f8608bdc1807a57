pub mod Common
pub mod LinesLemmas
pub mod FollowingLemmas
pub mod InputsLemmas
pub mod ScriptsLaws
pub mod LanesLaws
pub mod EndsLaws
