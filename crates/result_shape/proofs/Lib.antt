pub mod GrowingGroups
pub mod Numbering
pub mod Places
pub mod RunPlaces
pub mod Shapes
pub mod StrictOrder
pub mod TakenIn
pub mod Tallying
