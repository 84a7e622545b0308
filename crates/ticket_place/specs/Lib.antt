pub mod Orders
pub mod Sights
pub mod Steps
