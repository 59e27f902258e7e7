pub mod Bits
pub mod Names
pub mod Nets
pub mod Cells
pub mod Kept
