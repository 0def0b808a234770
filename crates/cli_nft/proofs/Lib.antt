pub mod Writing
pub mod Joining
