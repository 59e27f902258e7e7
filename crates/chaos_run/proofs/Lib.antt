mod Taken
mod Parts
mod Carried
mod Looked
mod Marked
mod Turned
mod LookParts
