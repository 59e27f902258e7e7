pub mod Entries
pub mod Guilt
pub mod Passages
pub mod Paths
