pub mod Anchors
pub mod Contents
pub mod Instances
pub mod Sums
pub mod Window
