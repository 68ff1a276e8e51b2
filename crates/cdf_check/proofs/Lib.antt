pub mod Walked
pub mod Same
pub mod Exact
