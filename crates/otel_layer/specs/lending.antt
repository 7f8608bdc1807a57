-- The tracer that is lent out of a layer.
pub mod Lending
pub mod CountingLending
