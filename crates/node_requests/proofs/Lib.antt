pub mod Lines
pub mod PositionsLogged
pub mod Budget
pub mod Logged
pub mod HitsCounted
mod Digits
mod Names
mod Behind
mod BodyLines
mod Posted
