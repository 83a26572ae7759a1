pub mod Layout
pub mod Record
pub mod Seen
pub mod WellFormed
