pub mod Chains
pub mod Pieces
pub mod RowsLeft
pub mod StillToCome
