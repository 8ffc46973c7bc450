pub mod Warp
pub mod WellFormed
pub mod Splits
pub mod Csr
pub mod Facts
pub mod Parked
