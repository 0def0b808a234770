pub mod Options
pub mod Asked
pub mod Answers
pub mod inner
