pub mod Lines
pub mod GroupLines
