pub mod FramesTold
pub mod Operands
pub mod Thrown
pub mod Lines
pub mod Standing
