-- The definitions that the pieces compute with; the marked pieces; the separating histories.
pub mod Opened
pub mod Marked
pub mod Separating
