pub mod Draws
pub mod Examples
pub mod Script
pub mod Summary
pub mod Tables
