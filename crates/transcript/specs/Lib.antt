pub mod Plain
pub mod Setup
pub mod Steps
pub mod Formulas
pub mod Transcript
pub mod Rows
pub mod Laws
pub mod Shifts
