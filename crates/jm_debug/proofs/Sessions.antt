-- Sessions of programs that are written out, by computation.
pub mod Computed
pub mod Lines
pub mod Adding
pub mod TwoThreads
pub mod Initializers
pub mod Objects
pub mod Continuing
pub mod Values
