pub mod Code
pub mod Piece
pub mod Laws
