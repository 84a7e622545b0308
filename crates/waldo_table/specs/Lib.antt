pub mod Asks
pub mod Faults
pub mod Fixes
pub mod Pieces
pub mod Tables
pub mod Vaults
pub mod View
