pub mod Trees
pub mod Paths
pub mod Sums
pub mod Forms
pub mod Walks
pub mod Orders
pub mod Gathering
pub mod Quarters
