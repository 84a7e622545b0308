pub mod Checked
mod Odd
mod Passing
