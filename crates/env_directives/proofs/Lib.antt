pub mod Common
pub mod cuts
pub mod forms
pub mod printed
pub mod tables
