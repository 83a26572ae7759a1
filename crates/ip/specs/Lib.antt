pub mod Ip
