pub mod Causes
pub mod Reading
pub mod Again
pub mod inner
