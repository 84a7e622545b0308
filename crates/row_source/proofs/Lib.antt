pub mod CountLaws
pub mod FieldLaws
pub mod HeaderLaws
pub mod HeldLaws
pub mod LeftLaws
pub mod ReadLaws
pub mod RowLaws
pub mod RowOf
