pub mod CutLaws
pub mod Digits
