-- What the traits of layers ask to be shown.
pub mod RoomLemmas
pub mod HookLemmas
pub mod LaneLemmas
pub mod KnownSpansLemmas
pub mod CountsLemmas
pub mod CallsLemmas
