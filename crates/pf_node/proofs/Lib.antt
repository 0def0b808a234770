pub mod Following
pub mod Commands
pub mod Recording
pub mod Places
