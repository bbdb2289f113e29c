pub mod Binding
pub mod Catalog
pub mod Parameters
pub mod References
pub mod Refusals
pub mod Spelling
