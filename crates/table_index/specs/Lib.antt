pub mod Bounds
pub mod Cuts
pub mod Distinct
pub mod Indexes
pub mod StatementIndexes
