pub mod Observed
pub mod ObservedWalk
