pub mod Sheets
pub mod RoundTrip
pub mod Compares
pub mod Marks
pub mod Calls
-- a class of sheets, by computing
mod Examples
