pub mod Caches
pub mod Choices
pub mod Examples
pub mod Faithful
pub mod Keeping
pub mod Laws
