-- Looking first, then inserting.
pub mod Theorem
