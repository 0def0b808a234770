pub mod Arguments
pub mod Batches
pub mod Runs
