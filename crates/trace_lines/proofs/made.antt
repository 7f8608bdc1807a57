-- The script that is made for a number.
pub mod LinesLemmas
pub mod ReportLemmas
pub mod StepsLemmas
