mod Apart
pub mod BoundIsSound
mod Exits
mod Fitting
mod Found
mod Known
mod Numbered
pub mod Operands
mod Sound
