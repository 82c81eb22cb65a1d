-- Each wrong way leaves another cavity.
pub mod Differing
