-- What lines are read as.
pub mod Spelled
pub mod Left
pub mod Gives
pub mod Object
pub mod Placed
