-- What only code and proofs use: no contract of a public function needs it.
pub mod Indexed
pub mod Shorter
pub mod Begun
pub mod Blanks
pub mod Defining
pub mod Flow
pub mod Joined
pub mod Lexed
pub mod Pending
pub mod Tokens
