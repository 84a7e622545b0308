pub mod Share
pub mod Pairs
pub mod Lists
pub mod Laws
