pub mod Merge
pub mod Laws
pub mod Inner
