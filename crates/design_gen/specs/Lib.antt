pub mod Lists
pub mod Taps
pub mod Couples
pub mod Generated
pub mod Laws
pub mod Rows
