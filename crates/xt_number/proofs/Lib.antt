mod Grammar
mod Values
mod Fixing
mod Powers
mod Units
mod WorkedValues
pub mod Quantities
