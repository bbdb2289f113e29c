pub mod Blocks
pub mod Heads
pub mod Items
pub mod Written
