pub mod Addresses
pub mod Members
pub mod Asking
pub mod Sockets
pub mod inner
