-- In reading order: what is next in a frame, the line of an event, and the lines of a run.
pub mod Doings
pub mod EventLines
pub mod Traces
