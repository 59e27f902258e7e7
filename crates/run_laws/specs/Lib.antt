pub mod Chains
pub mod Transitions
pub mod Laws
