pub mod Options
pub mod Numbers
pub mod Given
pub mod Status
pub mod Written
pub mod Shown
pub mod Explained
pub mod Sources
