-- Where a request stands, what each kind of call changes, and which are refused.
pub mod Here
pub mod Filter
pub mod Spans
pub mod Entries
pub mod Events
pub mod Fields
pub mod Contexts
pub mod Links
pub mod Refusals
