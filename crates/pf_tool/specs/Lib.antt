pub mod Options
pub mod Messages
pub mod Tool
pub mod inner
