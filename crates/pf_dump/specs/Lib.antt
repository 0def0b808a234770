pub mod Contents
pub mod Scripts
pub mod Texts
pub mod Written
pub mod Done
pub mod Seen
pub mod inner
