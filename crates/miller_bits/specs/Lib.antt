pub mod Views
pub mod Victims
pub mod Actives
pub mod Ranges
