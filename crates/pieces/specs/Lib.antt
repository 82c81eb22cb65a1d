pub mod Piece
pub mod Marked
pub mod Separating
