pub mod Spelling
pub mod Reading
pub mod Laws
pub mod Format
pub mod Writing
