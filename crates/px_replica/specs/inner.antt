-- What only code and proofs use: no contract of a public function needs it.
pub mod Copied
pub mod Props
pub mod Faults
pub mod Members
pub mod Replicas
pub mod Seen
pub mod Spelled
