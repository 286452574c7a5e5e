-- In reading order: what an instruction takes, in words, and its local variable; what is kept of a run, who waits for whom, what an instruction
-- found and wanted, what a stop is, and what is said of how a run ended.
pub mod Needs
pub mod Locals
pub mod Kept
pub mod Waits
pub mod Faults
pub mod Stops
pub mod Answers
