-- Forms on a segment; the test of a cell is right; what is claimed of the list. Then, for the code: what the codes rule out, products of two words, the
-- test by volumes, and what the call answers.
pub mod Meets
pub mod Touch
pub mod Laws
pub mod Codes
pub mod Products
pub mod Volumes
pub mod Answers
