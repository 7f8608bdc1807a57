-- Tasks that wait for their turn.
pub mod BegunTasksLemmas
pub mod QueueLemmas
pub mod TurnsLemmas
pub mod LeftHandlesLemmas
pub mod NewTaskLemmas
pub mod RootLemmas
