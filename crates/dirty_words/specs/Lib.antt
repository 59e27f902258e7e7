pub mod Views
pub mod Rule
pub mod Boards
pub mod Steps
pub mod Readers
