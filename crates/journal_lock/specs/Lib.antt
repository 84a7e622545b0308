pub mod Desk
pub mod Seats
pub mod Steps
