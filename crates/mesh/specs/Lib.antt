pub mod Tables
pub mod Chain
pub mod Mesh
pub mod Check
pub mod Start
pub mod Refusal
pub mod Inner
