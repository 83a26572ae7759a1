pub mod Flags
pub mod HeaderQuirks
