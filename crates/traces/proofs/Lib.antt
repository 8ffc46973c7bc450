pub mod Trace
pub mod Worked
pub mod Bound
pub mod LaneCases
pub mod Examples
pub mod Duds
