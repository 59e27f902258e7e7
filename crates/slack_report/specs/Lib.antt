pub mod Points
pub mod Checks
pub mod Slacks
pub mod Kept
pub mod Kinds
