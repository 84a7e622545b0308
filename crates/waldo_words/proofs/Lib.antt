pub mod EqualSigns
pub mod LegalValues
pub mod StepLaws
pub mod WideDigits
pub mod WordLaws
