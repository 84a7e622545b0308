pub mod Count
pub mod Each
pub mod Items
pub mod Listed
pub mod Prefixes
