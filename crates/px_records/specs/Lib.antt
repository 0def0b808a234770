pub mod Records
pub mod Memory
pub mod Faulty
pub mod inner
