pub mod GroupCalls
pub mod WarpCalls
pub mod Reaches
