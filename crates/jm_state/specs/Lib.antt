pub mod View
pub mod Parts
pub mod Ends
pub mod Runnable
pub mod Places
pub mod Reached
pub mod Arguments
