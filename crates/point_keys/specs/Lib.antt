pub mod Laws
pub mod PointWords
pub mod Points
