pub mod InPlace
pub mod Positions
