pub mod Units
pub mod Check
pub mod Ranks
pub mod Stack
pub mod Steps
pub mod Samples
pub mod Claims
