pub mod Stepping
pub mod Driving
pub mod Running
