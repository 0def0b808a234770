pub mod Observers
pub mod Sockets
pub mod inner
