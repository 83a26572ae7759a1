pub mod Divisors
pub mod Multiplier
pub mod Stamp
