pub mod Batch
pub mod Samples
pub mod Claims
