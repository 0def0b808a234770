-- What only code and proofs use: no contract of a public function needs it.
--
-- What only code and proofs use: no contract of a public function needs it.
pub mod Shorter
pub mod ConditionsSeen
pub mod TableShorter
pub mod Seen
