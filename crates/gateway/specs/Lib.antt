pub mod Compiled
pub mod Decode
pub mod LineTold
pub mod Lines
pub mod Parts
pub mod Zeros
