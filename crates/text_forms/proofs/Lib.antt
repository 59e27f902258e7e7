pub mod Bytes
pub mod ByForms
mod Further
pub mod Kept
pub mod NameLaws
