pub mod Units
pub mod Groups
pub mod Refilled
pub mod Called
