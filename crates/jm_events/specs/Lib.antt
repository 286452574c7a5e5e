-- The events that are due behind some of them.
pub mod Passes
pub mod Due
