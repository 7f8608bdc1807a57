-- What a poll does.
pub mod AttachedLemmas
pub mod CarriesLemmas
pub mod EntryLemmas
pub mod StepsSoFarLemmas
pub mod StepLemmas
pub mod RefusedPollLemmas
pub mod TurnLemmas
pub mod ChangesLemmas
