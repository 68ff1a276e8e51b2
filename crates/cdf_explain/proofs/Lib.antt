pub mod Filling
pub mod Levels
pub mod Telling
pub mod Explaining
