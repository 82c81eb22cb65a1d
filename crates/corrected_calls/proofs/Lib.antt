pub mod Plain
pub mod Theorem
pub mod Started
pub mod Numbers
pub mod Located
pub mod Spheres
