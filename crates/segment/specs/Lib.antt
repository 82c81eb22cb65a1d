-- Document 02 §4: the places of a segment and the cells on it, the test and the call, what is claimed of them; then what the inner functions give.
pub mod Segment
pub mod Call
pub mod Claim
pub mod Inner
