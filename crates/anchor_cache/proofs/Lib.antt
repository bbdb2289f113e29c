pub mod Changes
pub mod Comparing
pub mod FirstLeast
pub mod Ordering
pub mod Steps
pub mod Summing
pub mod Views
