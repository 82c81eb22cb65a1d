-- Document 02 §9: places, the mesh check with a clause left out, what is claimed; then what later requests say of the cells that hold a place.
pub mod Place
pub mod Clauses
pub mod Claim
pub mod Holders
