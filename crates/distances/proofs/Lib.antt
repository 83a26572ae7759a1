pub mod Codes
pub mod Hops
pub mod Unique
