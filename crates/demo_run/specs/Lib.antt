pub mod Counting
pub mod Demo
