pub mod Back
pub mod Table
pub mod Unique
