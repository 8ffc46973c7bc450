pub mod MachineCalls
pub mod StateCalls
