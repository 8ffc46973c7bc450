pub mod Row
pub mod StateWords
