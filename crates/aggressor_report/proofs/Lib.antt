mod Attained
mod Backs
pub mod OnePath
pub mod Picked
mod Spending
mod Spent
mod There
pub mod Turns
mod Walks
