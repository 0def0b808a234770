pub mod Parting
pub mod Keeping
pub mod Guarded
