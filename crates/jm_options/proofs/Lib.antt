pub mod Finding
pub mod CommandLines
pub mod Seen
