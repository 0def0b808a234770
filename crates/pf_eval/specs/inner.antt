-- What only code and proofs use: no contract of a public function needs it.
pub mod Sieves
pub mod Searching
pub mod TwoWalks
pub mod Cursors
pub mod PacketTexts
pub mod Seen
