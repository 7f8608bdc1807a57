pub mod AsksLemmas
pub mod FirstEntriesLemmas
pub mod GatheredLemmas
pub mod WorkLemmas
pub mod ClonesLemmas
pub mod JoinsLemmas
pub mod Columns
