pub mod Calls
pub mod Files
pub mod Messages
