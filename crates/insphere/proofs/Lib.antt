-- What the float sum tells of the exact one, and the exact one in two words; the exact ones of two tetrahedra, and their signs; worked pieces.
pub mod Promises
pub mod TwoWords
pub mod Power
pub mod Inside
pub mod Pieces
