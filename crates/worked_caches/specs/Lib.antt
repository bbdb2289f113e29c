pub mod OfStatement
