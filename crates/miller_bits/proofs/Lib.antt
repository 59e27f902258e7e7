mod Actives
mod Periods
pub mod Sums
