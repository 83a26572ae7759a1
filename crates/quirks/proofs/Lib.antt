pub mod Laws
pub mod Named
pub mod Places
pub mod Subset
pub mod Unique
pub mod Within
