pub mod Texts
pub mod Filters
pub mod PatternCrossing
pub mod FilterCrossing
