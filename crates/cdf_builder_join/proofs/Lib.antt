pub mod Parts
pub mod Joins
