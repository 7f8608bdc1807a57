-- The orders of directives, and which one decides.
pub mod Choice
pub mod DirectiveOrder
pub mod FieldOrder
pub mod StaticOrder
pub mod Table
