mod Skip
mod Spans
mod Plain
mod Inline
mod Open
mod Quotes
mod Jumps
mod WordJumps
