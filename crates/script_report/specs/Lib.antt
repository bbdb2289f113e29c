pub mod Canonical
pub mod Commands
pub mod Executions
pub mod Parts
pub mod Replies
pub mod Shown
