mod Indexed
mod Seen
