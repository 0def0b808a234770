-- What only code and proofs use: no contract of a public function needs it.
pub mod Props
pub mod Coming
pub mod Labs
pub mod Seen
pub mod Benches
