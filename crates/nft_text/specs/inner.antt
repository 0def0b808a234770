-- What only code and proofs use: no contract of a public function needs it.
pub mod Ends
