-- What the proofs of several functions use.
pub mod Cases
-- the example printout, by computing
mod Example
