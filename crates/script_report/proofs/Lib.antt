mod Arguments
mod Blanks
mod CanonicalCommands
mod CommandWords
pub mod ReadStatements
mod SaidLines
