pub mod Ascii
pub mod Digits
pub mod Reserved
pub mod Carried
pub mod Texts
