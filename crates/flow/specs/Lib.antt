pub mod Modes
pub mod Peer
pub mod Reading
pub mod Strict
pub mod Tcp
