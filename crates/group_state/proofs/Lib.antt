pub mod Joined
pub mod Calls
