pub mod KeyMessages
pub mod Laws
pub mod PredicateKeys
pub mod Query
pub mod Reading
pub mod Seeds
pub mod Views
pub mod Grouping
