pub mod Turns
pub mod Unique
pub mod Whole
pub mod Writing
