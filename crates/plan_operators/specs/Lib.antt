pub mod BuildSides
pub mod Columns
pub mod Edges
pub mod Keys
pub mod Padded
pub mod Probes
pub mod Sources
