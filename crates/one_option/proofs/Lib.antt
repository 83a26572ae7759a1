pub mod Begins
pub mod Cut
pub mod Options
pub mod See
pub mod Unique
