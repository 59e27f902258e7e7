pub mod Room
pub mod Scenes
pub mod Arcs
pub mod Closing
pub mod ReadLists
pub mod Pins
pub mod Tables
