pub mod Polynomial
pub mod Gathering
pub mod Growth
