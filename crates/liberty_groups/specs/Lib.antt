pub mod Sorts
pub mod Grammar
pub mod Values
pub mod Trees
pub mod Attributes
pub mod Building
pub mod View
pub mod Library
