pub mod Flows
pub mod SingleFrame
