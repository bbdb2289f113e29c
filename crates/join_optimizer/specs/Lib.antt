pub mod Found
pub mod Potentials
pub mod Search
pub mod Tops
