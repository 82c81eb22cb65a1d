-- Laws by subject: integers and their ring solver, orders, equations and signs that follow from given ones, bounds, machine arithmetic, determinants; then tests, finite tables,
-- sums, counts, iterations that settle, and the pigeonhole.
pub mod Integers
pub mod Ring
pub mod Order
pub mod Combine
pub mod Magnitude
pub mod Machine
pub mod Weighted
pub mod Flags
pub mod Sums
pub mod Counting
pub mod Tables
pub mod Determinant
pub mod Settling
pub mod Pigeonhole
pub mod Renumbering
