pub mod Grammar
pub mod Forms
pub mod Reading
