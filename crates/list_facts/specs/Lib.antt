pub mod Count
pub mod Listed
