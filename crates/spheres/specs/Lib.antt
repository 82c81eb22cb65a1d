-- Document 02 §2: spheres without points inside; then what is claimed after lists of calls.
pub mod Exact
pub mod Claim
