pub mod Distances
pub mod DistanceGates
