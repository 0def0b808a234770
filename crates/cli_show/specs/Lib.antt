pub mod Writing
pub mod Showing
pub mod Stores
pub mod Arguments
pub mod Outcomes
pub mod Running
pub mod Texts
pub mod Scripts
