pub mod Places
pub mod Sight
pub mod Loads
pub mod Moves
pub mod Stages
mod LoadStep
mod DrawStep
pub mod Running
mod Ends
mod Several
pub mod Kept
mod Numbered
mod Actions
mod Passing
pub mod Carrying
mod Picks
mod Countdown
pub mod Starting
mod Turns
mod Workers
pub mod Chained
pub mod NoNets
pub mod Settling
mod OnlyWorker
pub mod LookLaws
mod PassLaws
mod Deciding
mod Telling
mod Listing
mod Recalled
mod Sparing
