-- What only code and proofs use, and what a value of the code stands for.
pub mod Seen
