pub mod Answers
pub mod Nearest
