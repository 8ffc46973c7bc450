pub mod Tabulate
pub mod Picking
pub mod Words
pub mod Testing
pub mod Sound
pub mod StateWords
