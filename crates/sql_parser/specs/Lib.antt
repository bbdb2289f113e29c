pub mod Canonical
pub mod Examples
pub mod Grammar
pub mod Reading
pub mod Spelled
pub mod Statement
pub mod Tokens
