pub mod Compiled
pub mod Lists
pub mod Passes
pub mod Totals
pub mod Unique
pub mod Walk
