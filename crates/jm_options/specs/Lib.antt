pub mod CommandLine
pub mod Asked
pub mod Rows
