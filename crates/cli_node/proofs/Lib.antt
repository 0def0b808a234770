pub mod Writing
mod Refusing
pub mod Stores
mod Kept
pub mod Endings
pub mod Beyond
pub mod Sealed
pub mod Settled
pub mod Commands
