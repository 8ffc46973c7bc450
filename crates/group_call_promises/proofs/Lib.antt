pub mod GroupCalls
pub mod WarpCalls
pub mod Back
pub mod Reaches
