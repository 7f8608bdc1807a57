pub mod Common
-- Reading and writing.
pub mod texts
pub mod readings
pub mod made
pub mod ids
