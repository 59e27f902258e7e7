pub mod Notes
pub mod Visits
pub mod Turns
pub mod Rounds
