pub mod Asking
pub mod Batches
pub mod Refusing
pub mod Samples
pub mod Claims
