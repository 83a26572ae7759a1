pub mod FileLines
pub mod FileParts
