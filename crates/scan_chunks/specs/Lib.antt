pub mod Columns
pub mod Halves
pub mod Laws
pub mod Pieces
pub mod Scan
pub mod Shelf
