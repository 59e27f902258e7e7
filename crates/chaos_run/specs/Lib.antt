pub mod Looks
pub mod Rounds
