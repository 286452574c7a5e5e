pub mod Beginnings
pub mod Lanes
