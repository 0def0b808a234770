mod Capped
mod Counting
pub mod Given
mod Keeping
mod Looking
mod Named
mod Numbering
mod Products
mod Pushed
mod Stepping
mod Twice
mod Walking
pub mod Pairs
