pub mod KeyLines
mod StartsLines
mod Texts
