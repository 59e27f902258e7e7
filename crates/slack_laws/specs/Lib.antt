pub mod Arrivals
pub mod Laws
pub mod Meetings
pub mod Noise
