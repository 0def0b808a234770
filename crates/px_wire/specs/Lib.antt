pub mod Message
pub mod Fields
pub mod Seen
pub mod Sent
pub mod Members
pub mod Heads
pub mod inner
