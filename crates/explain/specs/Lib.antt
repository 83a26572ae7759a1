pub mod GateText
pub mod Gating
pub mod RecordLine
