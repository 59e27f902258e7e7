mod Over
mod MentionLaws
mod FoundLaws
mod NumberLaws
mod LevelLaws
mod TableLaws
mod KeptLaws
mod OriginLaws
pub mod PortLaws
pub mod Ranges
mod Settled
