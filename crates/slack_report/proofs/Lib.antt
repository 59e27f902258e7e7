mod Against
mod Kept
pub mod OneWorst
mod Placed
mod Points
mod Turns
mod Worsts
