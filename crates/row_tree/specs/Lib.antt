pub mod Column
pub mod Cover
pub mod Laws
pub mod Rounds
pub mod Running
pub mod Sides
pub mod Sums
pub mod Tree
