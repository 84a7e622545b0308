pub mod Column
pub mod Limits
pub mod Name
pub mod Schema
pub mod Widths
