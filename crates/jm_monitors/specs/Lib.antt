pub mod HeldMonitors
pub mod Entries
