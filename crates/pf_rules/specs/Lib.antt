pub mod Words
pub mod inner
pub mod Names
pub mod Rulesets
pub mod Items
pub mod Seen
