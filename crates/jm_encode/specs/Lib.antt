pub mod OpcodeBytes
pub mod Encoding
pub mod Ranges
