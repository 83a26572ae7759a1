pub mod List
pub mod Entries
pub mod FirstBad
pub mod Unique
