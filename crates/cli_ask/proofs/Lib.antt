pub mod Lines
pub mod Actions
pub mod Names
mod Answered
pub mod Series
pub mod Parts
pub mod Scripts
pub mod Fronts
pub mod Exchanges
pub mod Misuse
pub mod Begun
