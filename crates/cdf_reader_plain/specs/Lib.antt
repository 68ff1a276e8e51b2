pub mod Calls
pub mod Plain
pub mod Runs
pub mod Nexts
pub mod Samples
pub mod Claims
