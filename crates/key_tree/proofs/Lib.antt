pub mod Halves
pub mod Leaves
pub mod Levels
pub mod Reading
pub mod Walks
