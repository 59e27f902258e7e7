pub mod Forms
pub mod Meaning
pub mod Misfits
pub mod Names
pub mod Tokens
pub mod Reader
pub mod Refusals
pub mod Stops
