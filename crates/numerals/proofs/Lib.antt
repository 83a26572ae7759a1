pub mod Made
pub mod NumberLaws
pub mod Unique
