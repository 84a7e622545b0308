pub mod Carried
pub mod Lists
pub mod Messages
pub mod ShiftLaws
pub mod Shifts
pub mod Shown
pub mod Sights
