pub mod Turn
pub mod Star
pub mod Inner
