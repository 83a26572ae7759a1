pub mod Fragments
pub mod Ip
pub mod Unique
