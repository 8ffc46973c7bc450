pub mod Lists
pub mod Splits
pub mod Words
pub mod Copies
