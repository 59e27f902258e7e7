mod WorkedValues
mod WorkedDesigns
pub mod Ranges
pub mod Order
pub mod Meeting
pub mod Growth
pub mod Monotone
pub mod Words
pub mod Steps
pub mod Extremes
pub mod Widest
pub mod Starts
pub mod Room
pub mod Limits
mod Measure
mod Depth
pub mod Listed
pub mod Existence
pub mod Runs
pub mod Rounds
pub mod Passes
pub mod Answers
pub mod Sums
pub mod ReadLists
pub mod Numbers
mod Whole
