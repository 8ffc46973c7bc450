pub mod MachineCalls
pub mod StateCalls
-- the hypotheses are met, by computing
mod Examples
