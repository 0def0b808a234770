pub mod Among
mod Kept
mod Counting
mod Given
pub mod Chains
pub mod Looking
pub mod Clocks
pub mod Traffic
pub mod Runs
pub mod Hosting
pub mod Asking
pub mod Honest
pub mod Hosted
pub mod Still
