pub mod Counting
pub mod Fitting
pub mod InOrder
pub mod Letters
pub mod Parameters
pub mod Rising
pub mod TotalOrders
mod WholeNumbers
