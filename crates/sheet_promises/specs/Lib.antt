pub mod Sheets
pub mod Marks
pub mod Calls
