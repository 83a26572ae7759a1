pub mod Answers
pub mod LineText
pub mod Longest
pub mod Numbers
pub mod RoundTrip
pub mod Signature
pub mod Writing
pub mod WrittenForm
