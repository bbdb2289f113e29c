mod FirstLines
mod Fronts
mod ToldLines
pub mod WrittenHeads
