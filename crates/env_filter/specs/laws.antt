-- What the traits of layers ask to be shown.
pub mod HookLemmas
