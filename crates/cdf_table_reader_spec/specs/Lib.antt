pub mod Table
pub mod Calls
pub mod Runs
pub mod Samples
pub mod Claims
