pub mod PacketLine
