mod Sums
mod PinLaws
mod CoupleLaws
mod NetLaws
pub mod Soundness
mod RowLaws
mod DrawnLaws
