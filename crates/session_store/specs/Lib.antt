pub mod Kept
pub mod Measures
pub mod Outcomes
