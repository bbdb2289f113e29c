pub mod BestPlans
pub mod Cards
pub mod Formulas
pub mod Laws
pub mod Least
pub mod LowerBounds
pub mod Units
