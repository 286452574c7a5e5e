pub mod Loops
pub mod Taken
pub mod Spelled
pub mod Unique
