pub mod Chained
pub mod Nothing
pub mod Numbers
pub mod RowsFound
pub mod Tables
pub mod Turns
