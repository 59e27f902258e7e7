pub mod EightLaws
pub mod NameLaws
pub mod FoundLaws
