pub mod Choosing
pub mod Cursors
pub mod Engines
pub mod Executed
pub mod Keeping
pub mod Numbered
pub mod Running
pub mod Serving
