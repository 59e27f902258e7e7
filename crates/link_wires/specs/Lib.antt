pub mod Places
pub mod Marks
pub mod Seen
pub mod Plain
pub mod Wires
pub mod WireFaults
pub mod Within
pub mod Ground
