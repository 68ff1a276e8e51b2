pub mod Closings
pub mod Unclosed
pub mod Levels
