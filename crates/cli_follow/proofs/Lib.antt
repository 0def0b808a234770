mod Texts
mod Listing
pub mod Following
pub mod Same
mod WordsRead
pub mod MembersRead
pub mod Runs
pub mod Filing
pub mod Writes
pub mod Endings
pub mod Misuse
pub mod Kept
pub mod Puts
pub mod Asked
