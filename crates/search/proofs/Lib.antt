pub mod Examined
pub mod Fits
pub mod Onward
pub mod Order
pub mod Rows
pub mod SearchOrder
pub mod Unique
