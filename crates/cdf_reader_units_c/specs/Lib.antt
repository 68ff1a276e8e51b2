pub mod Batched
pub mod Claims
