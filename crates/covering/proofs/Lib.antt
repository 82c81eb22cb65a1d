-- Forms of places, the straight walk, nowhere uncovered (Linear to Cover); nowhere twice (Closed to Once); the definitions in parts of a step by forms
-- (Parts); then the theorem, what follows from it, and what it takes.
pub mod Linear
pub mod Avoid
pub mod Fields
pub mod Walk
pub mod Walls
pub mod Cover
pub mod Closed
pub mod Labels
pub mod Once
pub mod Parts
pub mod Shared
pub mod Theorem
pub mod Holders
pub mod NeverSeven
pub mod Needed
pub mod Pieces
