pub mod Sizes
pub mod Seen
pub mod Runs
pub mod Expected
pub mod Counts
pub mod Growing
