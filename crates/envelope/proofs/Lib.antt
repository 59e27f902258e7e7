mod Firsts
mod Wider
mod Agreement
pub mod Turns
pub mod Labels
mod Anew
mod Wires
