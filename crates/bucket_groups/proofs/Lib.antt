pub mod Buckets
pub mod Open
pub mod Adding
pub mod Parts
pub mod Runs
pub mod Visiting
pub mod Judged
