pub mod Codes
pub mod Executions
pub mod Laws
pub mod Run
pub mod Session
pub mod State
pub mod Step
