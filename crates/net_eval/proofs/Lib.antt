mod Contributions
pub mod Rooms
mod Nets
pub mod Steady
mod Looks
