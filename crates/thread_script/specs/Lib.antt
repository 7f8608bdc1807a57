pub mod Asks
pub mod Plans
pub mod Tests
