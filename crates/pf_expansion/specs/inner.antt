-- What only code and proofs use: no contract of a public function needs it.
pub mod Chosen
pub mod Counts
pub mod Judged
pub mod Numbers
pub mod Tables
