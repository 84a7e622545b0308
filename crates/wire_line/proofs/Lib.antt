pub mod Amounts
pub mod Below
pub mod OneShifted
