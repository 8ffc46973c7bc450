pub mod Taking
pub mod Held
