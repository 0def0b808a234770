-- What only code and proofs use: no contract of a public function needs it.
--
-- What only code and proofs use: no contract of a public function needs it.
pub mod Contents
pub mod Keys
pub mod Bloom
pub mod Parts
pub mod Tables
pub mod Intervals
pub mod Rows
