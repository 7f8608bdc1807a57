-- What records tell.
pub mod StoriesLemmas
pub mod RecordingLemmas
pub mod HistoriesLemmas
pub mod PairsLemmas
pub mod ContentsLemmas
pub mod RecordsLemmas
pub mod EventOpsLemmas
pub mod MadeRecordsLemmas
pub mod OwnContextsLemmas
