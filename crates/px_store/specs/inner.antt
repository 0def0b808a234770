-- What only code and proofs use: no contract of a public function needs it.
pub mod Ahead
pub mod Bytes
pub mod Making
pub mod NewRows
pub mod Questions
pub mod Adopting
pub mod Effect
pub mod Judging
pub mod Ready
pub mod Seen
pub mod Store
pub mod Tables
