pub mod Eights
pub mod Keys
pub mod Names
