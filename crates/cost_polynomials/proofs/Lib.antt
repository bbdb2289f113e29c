pub mod Terms
pub mod Values
pub mod Growth
pub mod Evaluation
