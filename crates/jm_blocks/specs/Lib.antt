pub mod Objects
pub mod Cells
pub mod Entries
pub mod Spelled
pub mod Held
pub mod Places
pub mod Stores
pub mod Few
