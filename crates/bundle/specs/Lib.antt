pub mod Answers
pub mod Bundle
