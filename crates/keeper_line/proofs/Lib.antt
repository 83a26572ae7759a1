pub mod Heads
pub mod LineEnds
pub mod Lines
pub mod Marks
pub mod Shapes
pub mod Turns
pub mod Unique
