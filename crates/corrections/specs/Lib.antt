-- Document 02 §1: corrections at the nodes.
pub mod Rounding
pub mod Corrections
pub mod Calls
pub mod Inner
