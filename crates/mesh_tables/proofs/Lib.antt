pub mod Writes
pub mod Ranges
