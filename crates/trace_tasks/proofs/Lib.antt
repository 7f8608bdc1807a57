pub mod Common
pub mod tapes
pub mod polls
pub mod queues
