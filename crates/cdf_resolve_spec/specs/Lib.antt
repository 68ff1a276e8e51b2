pub mod Resolve
pub mod Pass
pub mod Words
pub mod Samples
pub mod Claims
