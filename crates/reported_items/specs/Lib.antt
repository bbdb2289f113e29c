pub mod Reported
pub mod RunItems
