pub mod Sheet
pub mod Compare
