pub mod Wrong
pub mod Differing
