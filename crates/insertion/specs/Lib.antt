pub mod Inserted
pub mod Listed
pub mod Looked
pub mod Insertion
pub mod List
pub mod Look
pub mod Inner
