-- Links, and what is asked of the span extension.
pub mod FollowsLemmas
pub mod ExtensionLemmas
