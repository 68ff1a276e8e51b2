pub mod Steady
pub mod Turning
pub mod Twice
