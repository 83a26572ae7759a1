pub mod Asked
pub mod Fit
pub mod Gates
pub mod Tolerance
