mod Levels
mod Blocks
mod Ways
mod Worked
