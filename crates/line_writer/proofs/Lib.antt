pub mod Bounds
pub mod Layouts
pub mod Names
pub mod RowTexts
pub mod Unique
pub mod Writing
