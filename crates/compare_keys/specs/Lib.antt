pub mod CompareWords
pub mod Compares
pub mod Generated
pub mod Laws
