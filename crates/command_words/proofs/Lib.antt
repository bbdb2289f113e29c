pub mod Dashes
pub mod Normal
pub mod Parsing
pub mod Positionals
pub mod Prefixed
