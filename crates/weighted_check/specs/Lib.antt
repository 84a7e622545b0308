pub mod Check
pub mod Shifts
