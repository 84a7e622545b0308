pub mod Legal
pub mod Options
pub mod Shifts
pub mod Steps
pub mod Values
pub mod Words
