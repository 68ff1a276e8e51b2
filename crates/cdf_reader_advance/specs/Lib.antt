pub mod Advancing
pub mod Ranks
pub mod Claims
