pub mod Named
pub mod Quirks
