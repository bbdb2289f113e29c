pub mod Chains
pub mod Holds
pub mod Progress
pub mod Sessions
pub mod WholeFiles
pub mod EachCache
pub mod Reuse
