pub mod Worked
pub mod Examples
