pub mod Firsts
pub mod Renewal
pub mod Greatest
