-- What the proofs of several functions use.
pub mod Cases
-- what the calls can answer
pub mod Numbers
