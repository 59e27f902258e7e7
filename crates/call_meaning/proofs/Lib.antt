pub mod Lifts
pub mod Openings
pub mod Endings
pub mod Blocks
pub mod Netlists
pub mod Within
pub mod Given
pub mod EditLines
pub mod EditSteps
mod Agreeing
mod OnePassed
mod OneBlock
mod OneDesign
mod OneEdit
pub mod Agreement
mod Calls
