pub mod FrameView
pub mod Made
pub mod Computed
pub mod Operands
pub mod Locals
pub mod Called
