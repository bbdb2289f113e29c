mod ProductSteps
pub mod Factors
