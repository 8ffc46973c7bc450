pub mod Laws
pub mod Decoded
pub mod Tables
pub mod Immediates
pub mod Forms
pub mod Words
pub mod Digits
pub mod Numbers
