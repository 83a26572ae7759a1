pub mod Candidate
pub mod Next
pub mod Search
