pub mod Replays
pub mod Choices
