-- Events, and ops on spans that leave all else as it is.
pub mod EventsLemmas
