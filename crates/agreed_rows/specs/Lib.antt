pub mod Agreed
pub mod Answers
pub mod Servers
pub mod Shelves
