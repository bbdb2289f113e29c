pub mod Bounds
pub mod Headline
pub mod Ledgers
pub mod Verdicts
