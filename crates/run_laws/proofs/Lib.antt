mod Blocks
mod Cells
mod Counts
mod Explained
pub mod Hulls
pub mod Short
mod Worked
