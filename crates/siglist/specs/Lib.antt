pub mod List
pub mod Entries
