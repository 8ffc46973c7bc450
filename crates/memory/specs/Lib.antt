pub mod Bytes
pub mod Memory
pub mod Memories
pub mod Address
pub mod LaneAccess
