mod Arguments
mod Steps
mod Once
mod Matches
mod Builds
mod Accepted
