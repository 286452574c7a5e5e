-- In reading order: what a blocked thread asks for, that another thread has it, and which threads were blocked at their last event.
pub mod Asked
pub mod Waits
pub mod Blocked
