-- In reading order: what a line denotes, what is shown, what a command makes of a session, and what a step leaves of the threads.
pub mod Commands
pub mod Texts
pub mod Views
pub mod Session
pub mod Answering
pub mod Kept
