pub mod Access
pub mod Agree
pub mod Laws
pub mod Cases
