pub mod Texts
pub mod States
pub mod Loading
pub mod inner
