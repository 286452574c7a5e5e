pub mod Passes
pub mod Schedules
pub mod Rounds
pub mod Lone
pub mod Alike
