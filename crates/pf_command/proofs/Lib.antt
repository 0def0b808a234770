pub mod Counting
pub mod Contents
pub mod Applying
pub mod Log
pub mod EntryTexts
