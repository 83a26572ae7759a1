pub mod Answer
pub mod Line
pub mod LineReader
pub mod LineValues
pub mod Meaning
pub mod OneRecord
pub mod Words
