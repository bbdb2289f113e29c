pub mod Misfits
pub mod NextValues
pub mod TakenRows
