pub mod Common
pub mod SpanCountLemmas
pub mod Lanes
pub mod LaneSpansLemmas
pub mod SlotTableLemmas
pub mod Sound
