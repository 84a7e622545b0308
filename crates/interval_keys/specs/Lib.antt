pub mod IntervalWords
pub mod Intervals
pub mod Keys
pub mod Laws
