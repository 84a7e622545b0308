pub mod Appending
pub mod Asking
pub mod Legal
pub mod Placing
