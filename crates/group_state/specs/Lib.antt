pub mod GroupState
pub mod Got
