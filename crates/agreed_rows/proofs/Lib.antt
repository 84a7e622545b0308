pub mod Answering
pub mod Elements
pub mod Lending
pub mod OverRows
pub mod Shares
