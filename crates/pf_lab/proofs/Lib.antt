pub mod Following
pub mod Taking
pub mod Agreeing
pub mod Learnings
pub mod Outcomes
pub mod Digits
pub mod Lines
