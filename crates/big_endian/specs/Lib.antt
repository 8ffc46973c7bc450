pub mod BigEndian
pub mod Layout
pub mod Puts
