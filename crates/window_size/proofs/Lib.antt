pub mod First
pub mod Laws
pub mod Stamp
pub mod Unique
