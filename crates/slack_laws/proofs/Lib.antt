mod Below
mod Listed
mod Lists
mod Live
mod Marked
mod Switching
mod Wires
mod Worked
