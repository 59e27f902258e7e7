pub mod Numeral
pub mod Reading
pub mod Value
pub mod Quantities
pub mod Thousandths
pub mod View
