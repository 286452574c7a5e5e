pub mod Threads
pub mod Watched
pub mod WaitsOf
pub mod Joined
