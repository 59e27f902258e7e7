pub mod Totals
pub mod Views
pub mod Drawn
pub mod Alone
pub mod Moving
pub mod Opening
pub mod Drawing
pub mod Parting
pub mod Slices
mod Calls
pub mod Holding
