pub mod Flags
pub mod Unique
