pub mod Refusals
pub mod Contents
pub mod Search
pub mod Units
pub mod Numbers
pub mod Axes
pub mod Templates
pub mod Tables
