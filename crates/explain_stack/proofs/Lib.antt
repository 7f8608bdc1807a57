pub mod Around
pub mod AsksLemmas
pub mod Begins
pub mod Held
pub mod Moves
pub mod PollsLemmas
pub mod Quiet
pub mod Steps
