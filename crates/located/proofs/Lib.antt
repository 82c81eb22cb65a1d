-- Exactly one cell comes first, told by corners alone (Theorem); it comes first again after an insertion that keeps it (Kept), over calls (Parked).
pub mod Theorem
pub mod Kept
pub mod Parked
