pub mod Listing
pub mod Counted
pub mod Stretches
pub mod Stopped
