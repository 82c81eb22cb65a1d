-- A code for each point, in an array.
pub mod Codes
