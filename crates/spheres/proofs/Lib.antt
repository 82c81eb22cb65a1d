-- A point in a mesh with empty spheres: its cavity before correction (Cavity), whose corners stay (Corners), and its star (Star); the box as it is started
-- (Start); over lists of calls (Theorem).
pub mod Cavity
pub mod Corners
pub mod Star
pub mod Start
pub mod Theorem
