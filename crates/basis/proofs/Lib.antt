pub mod Bytes
pub mod Digits
pub mod Rules
pub mod Tests
pub mod Unique
