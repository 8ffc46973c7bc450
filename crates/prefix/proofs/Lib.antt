pub mod Laws
pub mod Judged
