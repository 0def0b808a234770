pub mod Machines
pub mod Outputs
pub mod Seen
pub mod Options
pub mod Running
