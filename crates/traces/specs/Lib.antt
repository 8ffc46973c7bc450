pub mod Bound
pub mod Machine
pub mod Trace
pub mod Worked
pub mod Duds
