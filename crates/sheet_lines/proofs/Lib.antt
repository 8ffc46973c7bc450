pub mod Bytes
pub mod Lines
pub mod Sheets
pub mod Compares
