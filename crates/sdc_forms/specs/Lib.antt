pub mod Options
pub mod Arranged
pub mod Statement
pub mod View
