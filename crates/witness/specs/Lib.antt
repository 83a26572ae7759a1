pub mod Lined
pub mod Taken
pub mod Walked
pub mod Written
pub mod Wrote
