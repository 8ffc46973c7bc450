pub mod Rows
pub mod Matches
pub mod Numbers
