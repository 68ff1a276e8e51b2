pub mod Batches
pub mod Joining
pub mod Reading
pub mod Computed
pub mod Proved
