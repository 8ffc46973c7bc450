pub mod Mask
pub mod Lanes
pub mod Rows
