pub mod Counts
pub mod Numbered
pub mod SameRows
pub mod SoundStats
pub mod Widths
