mod Tests
mod Sums
mod Sweeping
mod Sorting
mod Periods
mod Spans
mod Steady
mod Parts
mod Heights
pub mod Lists
