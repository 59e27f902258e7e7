mod Lines
pub mod OneReport
mod Pieces
mod Bound
mod CheckLines
mod WorkedReports
mod Widths
