pub mod Victims
mod Windows
