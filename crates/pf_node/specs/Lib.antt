pub mod Applied
pub mod Outcomes
pub mod Requests
pub mod Nodes
pub mod Asked
pub mod inner
