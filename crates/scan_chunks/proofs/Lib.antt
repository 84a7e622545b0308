pub mod Chunks
pub mod Parts
pub mod Shelves
pub mod Visits
