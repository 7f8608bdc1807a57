-- Texts of filters.
pub mod Building
pub mod FromVariables
pub mod Pieces
pub mod Printing
pub mod Reading
