pub mod Cardinalities
pub mod Checks
pub mod Costs
pub mod Examples
pub mod Laws
pub mod LeastCost
pub mod WeightExamples
