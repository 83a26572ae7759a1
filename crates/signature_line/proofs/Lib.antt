pub mod Accepted
pub mod Arrays
pub mod FieldsGood
pub mod LineValues
pub mod Line
pub mod WellFormed
pub mod Zeros
