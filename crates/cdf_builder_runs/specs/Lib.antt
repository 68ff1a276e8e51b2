pub mod Runs
pub mod Telling
pub mod Building
pub mod Samples
pub mod Claims
