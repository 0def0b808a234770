pub mod Lines
pub mod Orders
pub mod Listings
pub mod Ctl
pub mod Seen
pub mod WordsRead
pub mod inner
