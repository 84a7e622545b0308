pub mod Input
pub mod Left
pub mod Progress
pub mod Rows
pub mod Source
