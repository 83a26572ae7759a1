pub mod Options
pub mod See
