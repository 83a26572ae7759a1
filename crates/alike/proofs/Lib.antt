-- The proofs of demand 3.
pub mod BodyExact
pub mod Cut
pub mod Equivalence
pub mod Exact
pub mod HeaderExact
pub mod Ip
pub mod Options
pub mod OptionsAlike
pub mod OptionsDiffer
pub mod Packets
pub mod Places
pub mod Tcp
pub mod TcpExact
pub mod Walks
