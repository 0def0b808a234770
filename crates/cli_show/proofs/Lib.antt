pub mod Opened
mod Reading
mod Misuse
pub mod TextsShown
pub mod LogScripts
pub mod Closing
