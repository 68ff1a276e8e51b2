pub mod Salvage
pub mod Kept
pub mod Samples
pub mod Claims
