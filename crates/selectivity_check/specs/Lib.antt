pub mod Near
pub mod Search
