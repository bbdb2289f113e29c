pub mod Expression
pub mod Sharing
