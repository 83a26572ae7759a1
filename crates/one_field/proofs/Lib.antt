pub mod BehindWord
pub mod LetterLaws
pub mod PlaceLaws
pub mod Unique
