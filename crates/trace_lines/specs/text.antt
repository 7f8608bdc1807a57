-- The texts of values.
pub mod Hex
pub mod Decimals
pub mod Words
pub mod Compact
pub mod Texts
pub mod WrittenText
pub mod Writes
pub mod QuickLines
