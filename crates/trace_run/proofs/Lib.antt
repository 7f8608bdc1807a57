pub mod Common
pub mod SumsLemmas
pub mod MakingLemmas
pub mod RenamesLemmas
pub mod ThreadsLemmas
pub mod ScriptsLemmas
