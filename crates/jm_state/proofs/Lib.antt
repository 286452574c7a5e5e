pub mod Gathered
pub mod Alike
pub mod Sizes
pub mod Made
pub mod Runs
pub mod Popping
pub mod Locals
pub mod Tested
