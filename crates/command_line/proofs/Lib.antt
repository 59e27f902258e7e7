mod Cuts
mod Digits
mod Jobs
pub mod Counts
pub mod Rising
