pub mod Comparing
pub mod Rooted
pub mod Searched
