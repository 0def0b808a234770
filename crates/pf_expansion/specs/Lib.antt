pub mod Expansion
pub mod Causes
pub mod Tables
pub mod Anchors
pub mod Blocks
pub mod Defined
pub mod inner
