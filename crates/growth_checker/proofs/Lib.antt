pub mod Sets
pub mod Expansion
