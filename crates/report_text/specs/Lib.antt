pub mod Names
pub mod Checks
pub mod Worst
pub mod Paths
pub mod Report
pub mod Fields
pub mod Pieces
pub mod Summary
