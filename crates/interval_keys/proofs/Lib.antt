pub mod Back
pub mod Sums
pub mod Tables
