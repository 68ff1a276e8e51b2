pub mod Find
pub mod Told
pub mod Search
pub mod Chosen
pub mod Samples
pub mod Claims
