pub mod Language
pub mod LeadingZero
pub mod Numeral
pub mod Reading
pub mod Spelling
pub mod States
pub mod Table
