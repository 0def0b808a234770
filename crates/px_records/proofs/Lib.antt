pub mod Maps
pub mod Peaks
