mod Examples
pub mod Rows
pub mod Targets
pub mod Opcodes
pub mod Switches
pub mod Instructions
pub mod Codes
pub mod Sizes
pub mod LaidOut
pub mod Appending
pub mod CodeLoop
