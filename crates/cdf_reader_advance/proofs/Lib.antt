pub mod Standing
pub mod Stepped
pub mod Steady
pub mod Proved
