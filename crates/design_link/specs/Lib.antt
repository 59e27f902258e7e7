pub mod Nets
pub mod Sizes
pub mod Gathered
pub mod Built
