pub mod Asked
pub mod Bits
pub mod Declared
pub mod Entries
pub mod Laws
pub mod Rigid
pub mod Unique
