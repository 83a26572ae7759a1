pub mod Packets
pub mod BundleOrder
pub mod Unique
