pub mod Lines
pub mod Words
pub mod Fields
pub mod Miller
