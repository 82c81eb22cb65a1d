-- The cell that comes first so far, where there is one.
pub mod Candidates
