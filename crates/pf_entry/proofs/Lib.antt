pub mod Lists
pub mod Joined
pub mod Takes
pub mod Entries
pub mod Whole
pub mod Valid
pub mod Short
pub mod Kept
