-- What only code and proofs use: no contract of a public function needs it.
pub mod Asking
pub mod Handling
pub mod Looping
pub mod Runs
pub mod Watching
pub mod Rows
pub mod Clients
pub mod Hearing
pub mod Observing
pub mod Answering
pub mod Ending
pub mod Serving
