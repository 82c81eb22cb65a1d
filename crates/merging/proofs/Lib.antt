-- Laws by subject, in the order in which they build on each other.
pub mod Firsts
pub mod Table
pub mod Filter
pub mod Answers
pub mod Laws
