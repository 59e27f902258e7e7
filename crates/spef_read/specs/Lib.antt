pub mod Words
pub mod Sorts
pub mod Forms
pub mod Names
pub mod Meaning
pub mod Reading
pub mod View
pub mod Sound
