pub mod Held
pub mod Lengths
