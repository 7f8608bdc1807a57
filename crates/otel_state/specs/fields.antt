-- What fields tell.
pub mod EventFields
pub mod Fields
pub mod SpanFields
pub mod FirstAttributes
