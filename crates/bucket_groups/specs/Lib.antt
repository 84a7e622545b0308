pub mod Ending
pub mod Grouped
pub mod Laws
pub mod Rounds
pub mod Check
pub mod Seen
pub mod AtOnce
