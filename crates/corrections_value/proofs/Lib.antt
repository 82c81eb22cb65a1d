pub mod Words
pub mod Cell
