pub mod Logs
pub mod Cells
pub mod Seen
pub mod Planning
pub mod Fitting
pub mod OneStep
pub mod inner
