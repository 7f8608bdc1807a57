-- What the layers of a stack are told.
pub mod HeardSpansLemmas
pub mod GaugesLemmas
pub mod CountersLemmas
pub mod TakenRecordsLemmas
pub mod AdmissionLemmas
pub mod StaticFilterLemmas
