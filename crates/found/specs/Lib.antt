pub mod Examined
pub mod Least
pub mod Rank
