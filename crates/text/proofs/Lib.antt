pub mod Decimal
pub mod Unique
pub mod Writing
