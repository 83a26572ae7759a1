pub mod Rfc791
pub mod Rfc8200
pub mod Rfc9293
