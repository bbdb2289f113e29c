pub mod Fraction
pub mod Product
