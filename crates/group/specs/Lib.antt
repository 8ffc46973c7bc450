pub mod Group
pub mod GroupRefuse
pub mod GroupCalls
pub mod Places
