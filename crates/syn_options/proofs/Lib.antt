pub mod Entries
pub mod First
pub mod Readers
pub mod Rows
pub mod Strict
pub mod Unique
pub mod Walk
