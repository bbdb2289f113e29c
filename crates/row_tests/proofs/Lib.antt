pub mod NoCell
pub mod PackedTests
pub mod ReadyTests
