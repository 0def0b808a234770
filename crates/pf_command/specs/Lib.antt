pub mod Effect
pub mod Answers
pub mod inner
pub mod Arguments
