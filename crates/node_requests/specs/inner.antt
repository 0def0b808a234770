-- What only code and proofs use: no contract of a public function needs it.
--
-- What only code and proofs use: no contract of a public function needs it.
pub mod Outcomes
pub mod Left
pub mod Parameters
