pub mod Tables
pub mod Contents
pub mod Parts
pub mod inner
pub mod Intervals
pub mod Rows
pub mod Columns
pub mod Classes
