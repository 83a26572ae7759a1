pub mod Decimal
pub mod Written
