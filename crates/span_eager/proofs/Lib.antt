pub mod Common
mod SameSpan
mod SameSpans
mod SameRecordings
mod RenamedTables
mod SameCalls
mod LazyHistories
mod SameScripts
pub mod SameOutcomes
