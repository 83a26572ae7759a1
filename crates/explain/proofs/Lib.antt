pub mod Deciding
pub mod Rows
pub mod Laws
