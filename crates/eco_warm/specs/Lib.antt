pub mod Edits
pub mod Laws
pub mod Possible
pub mod Reading
pub mod Starts
