pub mod Marks
pub mod Remembered
