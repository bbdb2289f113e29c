pub mod Bounded
pub mod Finds
pub mod Ledgers
pub mod Reuses
