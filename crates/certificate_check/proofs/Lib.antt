pub mod Answering
pub mod Bounding
pub mod Comparing
pub mod Feasible
pub mod Judging
pub mod LastPlaces
pub mod OneVerdict
