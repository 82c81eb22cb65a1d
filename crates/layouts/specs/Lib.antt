-- Document 02 §11, 'Compared with the old layout': the old layout (Packed, Old), sequences in both (Histories), and what is the same (Same).
pub mod Packed
pub mod Old
pub mod Histories
pub mod Same
