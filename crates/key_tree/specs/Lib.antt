pub mod KeyWords
pub mod Keys
pub mod Seeds
pub mod Tree
