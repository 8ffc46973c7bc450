pub mod V0Rows
