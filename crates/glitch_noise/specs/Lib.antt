pub mod Shares
pub mod Peaks
pub mod Changes
pub mod Laws
