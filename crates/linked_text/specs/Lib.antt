pub mod Linked
pub mod Writing
pub mod Meaning
pub mod Fields
pub mod Gives
pub mod Answers
pub mod EachLine
pub mod Fits
