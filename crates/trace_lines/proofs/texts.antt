-- Texts that are written.
pub mod AddsLemmas
pub mod CutsLemmas
pub mod DecimalsLemmas
pub mod DigitsLemmas
pub mod EscapesLemmas
pub mod HexLemmas
pub mod PlainTextsLemmas
pub mod IntegersLemmas
pub mod AttributesLemmas
pub mod FieldsLemmas
