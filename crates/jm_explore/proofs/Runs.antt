-- Closed runs: all schedules of small programs, by computation.
pub mod Switches
