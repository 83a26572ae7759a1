pub mod Free
pub mod Ip
pub mod Options
pub mod Packets
pub mod Stages
pub mod Tcp
