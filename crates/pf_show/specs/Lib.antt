pub mod Seen
pub mod Shown
pub mod inner
