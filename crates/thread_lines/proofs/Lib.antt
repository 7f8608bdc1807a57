pub mod TextLemmas
pub mod TestedLemmas
pub mod BalanceLemmas
pub mod RunnableLemmas
pub mod ToldLemmas
pub mod StoppedLemmas
pub mod AddingLemmas
