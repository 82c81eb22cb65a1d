-- Document 02 §3: one cell for a position.
pub mod Claim
pub mod Parked
